mod CreditLaws
mod PlainLaws
pub mod RaisedLaws
mod SettingsLaws
pub mod SoundLaws
