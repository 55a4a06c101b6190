pub mod NumberLaws
pub mod ReadsAs
pub mod RegistryLaws
pub mod RowLaws
