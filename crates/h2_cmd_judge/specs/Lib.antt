pub mod CaseVerdicts
pub mod Events
pub mod Judges
pub mod Readings
pub mod Recorded
pub mod ServerFrames
