mod Entries
pub mod Copied
mod Editing
mod KeptRuns
mod Popped
mod StaticEntries
