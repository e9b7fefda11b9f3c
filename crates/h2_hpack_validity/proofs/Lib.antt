pub mod KnownNames
mod MarkRows
pub mod OctetTables
