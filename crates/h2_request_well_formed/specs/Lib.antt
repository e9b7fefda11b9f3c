pub mod Asked
pub mod Fields
pub mod Marked
pub mod ReasonNumber
pub mod Seen
pub mod Walk
