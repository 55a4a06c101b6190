pub mod Checked
pub mod Creation
pub mod Faults
pub mod Plain
pub mod Refusals
pub mod Setup
pub mod Versions
