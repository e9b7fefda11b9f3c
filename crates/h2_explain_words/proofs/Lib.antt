mod Along
pub mod Fronts
mod ReadingOn
