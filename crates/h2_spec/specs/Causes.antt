-- The table of rules: causes, reasons, duties, sentences.
pub mod AcceptedWords
pub mod Cause
pub mod CauseWords
pub mod Conforming
pub mod Errors
pub mod Ignored
pub mod IgnoredWords
pub mod Rules
pub mod SpecialCases
