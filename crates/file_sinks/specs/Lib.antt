pub mod Reading
pub mod Sinks
pub mod Syncs
pub mod Writing
