-- The laws `traces_name`, `accepted_cuts`, `traces_of_cuts`, `files_of_status` and `due_of_status`: a cut, its files,
-- and the traces of its entries.
pub mod AcceptedCuts
pub mod FilesOfDays
pub mod NamedTraces
pub mod NextCut
pub mod SentWith
pub mod SettlesAfter
pub mod CutBatches
pub mod CutSequences
pub mod TracesOfCuts
