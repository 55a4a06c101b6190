pub mod FaultNumbers
pub mod Laws
pub mod Layout
pub mod Print
pub mod Record
pub mod Row
pub mod View
pub mod Views
