pub mod Keeping
mod Returning
mod Runs
mod Taking
