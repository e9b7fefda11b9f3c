mod LeastReasons
pub mod MarkedFields
pub mod Seen
