pub mod Plain
pub mod Planned
pub mod Prints
pub mod Sendings
pub mod Sums
pub mod BySize
pub mod Totals
pub mod IsDue
