pub mod AnswerParts
pub mod Books
pub mod Faults
pub mod Places
