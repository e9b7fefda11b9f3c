pub mod Block
pub mod OneSetting
pub mod Open
pub mod Plain
pub mod Sound
