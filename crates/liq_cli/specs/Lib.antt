pub mod Again
pub mod Call
pub mod Telling
