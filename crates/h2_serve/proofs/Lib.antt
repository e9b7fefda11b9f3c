pub mod ServeLemmas
pub mod ShownLemmas
pub mod Watching
pub mod Growing
pub mod Halting
pub mod Exchanges
pub mod Prefixes
