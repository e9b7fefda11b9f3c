pub mod Folded
pub mod Lent
pub mod Listed
pub mod Spans
