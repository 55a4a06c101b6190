-- The law `accounts_cancel`: all accounts sum to zero.
pub mod Companies
pub mod CompaniesOnce
pub mod OwnLines
pub mod AllAccounts
