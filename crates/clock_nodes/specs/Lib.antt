pub mod Nodes
pub mod Scenes
pub mod States
