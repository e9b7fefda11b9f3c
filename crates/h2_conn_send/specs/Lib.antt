pub mod Above
pub mod Moves
pub mod Prepared
pub mod Sending
pub mod Writes
