pub mod Bodies
pub mod FaultLines
pub mod Laws
pub mod Lists
pub mod Messages
pub mod Options
pub mod Rows
