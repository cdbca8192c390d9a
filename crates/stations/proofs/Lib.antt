mod Walked
pub mod Lengths
mod Gapless
mod AsOne
mod CueRows
pub mod Making
pub mod Parts
