pub mod Appends
pub mod Bodies
pub mod Headers
pub mod Keys
pub mod Pairs
pub mod Texts
