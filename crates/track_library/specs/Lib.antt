pub mod Lists
pub mod Walk
pub mod Reads
pub mod States
pub mod Singles
pub mod Files
pub mod Loads
pub mod Heads
