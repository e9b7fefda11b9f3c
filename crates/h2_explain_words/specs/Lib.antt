pub mod Along
pub mod Names
pub mod Sent
pub mod Spelled
