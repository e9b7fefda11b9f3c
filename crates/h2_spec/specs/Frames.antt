-- Frames, items and payloads (RFC 9113, 3.4, 4 and 6).
pub mod Frame
pub mod FrameType
pub mod Parse
pub mod Payload
