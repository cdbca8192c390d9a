pub mod Parts
pub mod Nodes
pub mod Times
pub mod Sinks
pub mod Settings
pub mod Builtins
pub mod Sound
