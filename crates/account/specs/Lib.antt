pub mod Accounts
pub mod Whole
