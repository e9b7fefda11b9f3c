pub mod AnswerTexts
pub mod RefusedWords
pub mod Spans
pub mod Taken
