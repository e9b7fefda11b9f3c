pub mod CaseLists
pub mod LineLaws
pub mod Lists
pub mod Readings
