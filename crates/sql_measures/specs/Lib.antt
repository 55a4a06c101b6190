pub mod Counted
pub mod OpenEntries
