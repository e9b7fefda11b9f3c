pub mod Characters
pub mod Each
pub mod Faults
pub mod Readings
pub mod Texts
pub mod Writable
