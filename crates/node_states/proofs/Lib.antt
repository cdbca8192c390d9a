pub mod Offered
pub mod Stepped
pub mod Begun
pub mod Filled
pub mod FilledStretch
pub mod Seconds
pub mod Chunks
mod Rested
pub mod Running
pub mod Ahead
pub mod Hearing
mod Ran
mod Through
pub mod Outputs
mod Switching
