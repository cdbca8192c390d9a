pub mod CellSums
pub mod Lanes
mod Levels
mod Summing
pub mod Heard
