mod Creates
pub mod DeskChecks
pub mod DeskPlain
pub mod DeskRows
pub mod FreeNames
mod MadeInTurn
pub mod Memory
pub mod NewDesks
pub mod Plain
pub mod Refused
pub mod VersionFound
pub mod VersionShown
