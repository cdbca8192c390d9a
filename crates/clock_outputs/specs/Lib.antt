pub mod Filled
pub mod Blocks
pub mod Ports
pub mod Segments
pub mod Feeds
pub mod Appends
