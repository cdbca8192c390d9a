pub mod Header
pub mod Chunks
pub mod Reading
pub mod Fronts
