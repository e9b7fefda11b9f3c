pub mod BlockLaws
pub mod BookLaws
mod FirstLaws
mod LentLaws
pub mod TestLaws
