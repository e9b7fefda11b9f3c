pub mod Limit
pub mod HexText
