pub mod Resume
pub mod Faults
pub mod Instructions
pub mod Shapes
