pub mod Clocks
pub mod Stretches
