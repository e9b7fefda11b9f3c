pub mod ChangeWords
pub mod Lines
pub mod Rest
pub mod Waits
pub mod Why
