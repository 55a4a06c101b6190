pub mod Acceptances
pub mod InRange
pub mod Json
pub mod Objects
pub mod Parsed
pub mod Plain
