pub mod SettingCode
