pub mod Walks
pub mod Seeking
pub mod Cutting
pub mod Building
