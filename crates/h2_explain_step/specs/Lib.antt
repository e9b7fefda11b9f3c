pub mod Account
pub mod Explained
pub mod Reader
