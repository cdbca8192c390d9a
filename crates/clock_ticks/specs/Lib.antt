pub mod Engines
pub mod Ticks
pub mod Beginnings
pub mod Standing
pub mod Hearings
pub mod Cues
pub mod Pieces
