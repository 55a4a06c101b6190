-- Lists and chains of checks that several laws use.
pub mod Chains
pub mod Checks
pub mod Elements
pub mod Each
pub mod Apart
