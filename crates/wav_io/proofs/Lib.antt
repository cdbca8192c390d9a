pub mod Headers
pub mod Steps
pub mod Own
pub mod Blocks
pub mod Heads
mod Places
mod Fronts
