pub mod Contents
pub mod Entries
pub mod Faults
pub mod Files
pub mod AnswerTable
pub mod Values
