pub mod FlatRows
pub mod FlatCuts
pub mod FlatIntakes
pub mod Traced
pub mod Added
