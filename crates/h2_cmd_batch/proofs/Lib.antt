pub mod Assembled
pub mod Inputs
pub mod Played
pub mod RefusedAnswers
mod Replaced
pub mod Setups
pub mod Tables
pub mod Written
