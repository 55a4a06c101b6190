pub mod Dates
pub mod Digits
pub mod Packing
pub mod Texts
pub mod Traces
