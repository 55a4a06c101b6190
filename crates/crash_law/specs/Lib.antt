pub mod Runs
pub mod Crashes
pub mod Openings
