pub mod Groups
pub mod Reading
pub mod Strings
pub mod HuffmanTable
pub mod Writing
