mod Closing
mod Folding
pub mod ListParts
