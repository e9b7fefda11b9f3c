-- What is shown, scripts, positions of the debugger.
pub mod Assemble
pub mod Debug
pub mod Script
pub mod Show
pub mod View
pub mod Written
