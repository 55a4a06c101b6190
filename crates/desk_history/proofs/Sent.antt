-- The laws `sent_are_accepted` and `possible_parts`: sent entries, and their returns.
pub mod SentEntries
pub mod Resolving
pub mod Given
pub mod PartsPossible
