pub mod Samples
pub mod Mixing
pub mod Reciprocals
