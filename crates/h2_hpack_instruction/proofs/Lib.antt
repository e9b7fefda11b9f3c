mod Appending
mod Lengths
pub mod Reading
mod Responding
pub mod Resting
pub mod Resuming
mod Writing
