mod BlockLaws
mod FrameLaws
mod ListLaws
