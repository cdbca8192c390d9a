pub mod Places
pub mod Seen
pub mod Noted
pub mod InPlace
pub mod Labelled
