pub mod Mark
pub mod Octets
