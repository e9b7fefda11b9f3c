pub mod Links
pub mod Plays
