mod Texts
pub mod Views
