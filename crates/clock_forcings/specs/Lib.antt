pub mod Forcings
pub mod Found
