pub mod Failures
pub mod Prefixes
pub mod Tries
pub mod Written
