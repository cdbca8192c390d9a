pub mod Numerals
pub mod Points
pub mod Starts
