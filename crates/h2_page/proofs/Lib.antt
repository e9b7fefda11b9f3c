pub mod Given
pub mod Runs
pub mod Worded
mod Blocks
