pub mod InTurn
pub mod ListReads
