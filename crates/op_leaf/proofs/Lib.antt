pub mod Positions
pub mod Cursors
pub mod Turns
mod Stretching
mod Giving
pub mod Onward
pub mod Laid
mod Reading
