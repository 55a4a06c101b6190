pub mod Arguments
pub mod CommandLine
pub mod InitOptions
pub mod SyncWords
