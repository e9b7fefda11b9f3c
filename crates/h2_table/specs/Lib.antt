pub mod Edits
pub mod Held
pub mod Lent
pub mod Runs
pub mod StaticMarks
