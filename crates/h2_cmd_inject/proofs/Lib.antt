pub mod ResultLaws
pub mod ScriptLaws
pub mod FileLaws
pub mod Refusals
pub mod AsideLaws
pub mod ViewLaws
