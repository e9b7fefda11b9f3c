pub mod Asked
pub mod BlockLength
pub mod Fault
pub mod Firsts
pub mod Lent
