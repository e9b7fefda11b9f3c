pub mod AboveLaws
pub mod AloneLaws
mod KeptLaws
pub mod KindLaws
mod PiecesLaws
pub mod PreparedLaws
pub mod SendChangeLaws
pub mod SentLaws
pub mod ShortLaws
pub mod UndoLaws
