pub mod Exchanges
pub mod Faults
pub mod Lingering
pub mod Serving
pub mod Session
pub mod Sides
pub mod Turns
