mod Accounts
pub mod Taken
