pub mod Readings
pub mod States
pub mod Written
