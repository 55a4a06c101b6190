pub mod EntryKeys
pub mod OverStores
pub mod Plans
pub mod Resolutions
pub mod ReturnedEntries
