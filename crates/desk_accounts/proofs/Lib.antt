pub mod Cancel
pub mod Days
pub mod Lines
pub mod Same
pub mod Sums
pub mod ValueDays
mod Vectors
