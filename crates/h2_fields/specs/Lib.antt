pub mod ResponseRead
pub mod Rests
pub mod Batches
pub mod Blocks
pub mod Applied
