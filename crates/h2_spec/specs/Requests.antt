-- Requests and their answers (RFC 9113, 8).
pub mod Answer
pub mod AnswerWords
pub mod Book
pub mod Headers
pub mod Reasons
pub mod Request
pub mod StreamEnds
