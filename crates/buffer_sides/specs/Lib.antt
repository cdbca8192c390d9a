pub mod Logs
pub mod Sides
