pub mod Postings
pub mod Questions
pub mod Shows
