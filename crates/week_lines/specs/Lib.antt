pub mod Lines
pub mod Instead
pub mod Weeks
