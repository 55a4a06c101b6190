mod Kept
mod Openings
mod Runs
