pub mod Told
pub mod Same
