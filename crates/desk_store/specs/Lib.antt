pub mod Accounts
pub mod Changes
pub mod Held
pub mod LastNumber
pub mod Promises
pub mod Rows
pub mod Words
pub mod Written
