pub mod ChangeLaws
pub mod SettingLaws
pub mod FieldLaws
pub mod SpecialLaws
mod ShownLaws
mod FollowedLaws
mod TableLaws
