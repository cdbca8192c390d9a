pub mod CrossLaws
pub mod CrossGrows
pub mod Filling
pub mod Standing
pub mod Filled
pub mod Longer
pub mod LeastRuns
pub mod Stretching
pub mod PlainStretch
mod MixedStretch
mod Rows
pub mod Running
mod Passing
mod Resting
mod Titles
