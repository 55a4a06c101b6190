pub mod ItemsFound
pub mod Known
pub mod RowsFound
pub mod SettledPlaces
pub mod TracedEntries
pub mod HeldSizes
