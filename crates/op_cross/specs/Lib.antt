pub mod Tracks
pub mod Crossfade
pub mod States
pub mod Runs
pub mod Stretches
