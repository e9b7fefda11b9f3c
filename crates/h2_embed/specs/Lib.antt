pub mod Embed
pub mod Hold
pub mod Kept
