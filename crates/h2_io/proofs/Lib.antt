pub mod Appending
pub mod HexTexts
pub mod HexBlocks
mod HexPairs
pub mod HexRelations
