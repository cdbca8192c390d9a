pub mod SettingOver
