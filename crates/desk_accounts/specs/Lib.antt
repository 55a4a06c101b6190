pub mod Balance
pub mod Laws
pub mod Posting
pub mod Sums
