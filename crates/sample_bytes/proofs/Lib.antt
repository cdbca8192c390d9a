pub mod Blocks
pub mod Threes
pub mod Woven
pub mod Shuffles
