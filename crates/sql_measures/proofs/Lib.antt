pub mod Measures
pub mod OpenHeads
pub mod RatedHeads
pub mod RowFacts
pub mod OpenEntries
