pub mod ByName
pub mod CutRecords
pub mod Decimals
pub mod KeptRows
pub mod Lists
mod SelectedColumns
pub mod StoredKinds
mod WorkedRows
pub mod YoungestNumbers
