pub mod Each
pub mod Gathered
pub mod Found
mod Switches
