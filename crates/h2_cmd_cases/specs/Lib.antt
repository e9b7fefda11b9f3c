pub mod CaseWords
pub mod Files
pub mod Frames
pub mod Lines
pub mod Shell
