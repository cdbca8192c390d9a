pub mod Mixings
pub mod Stretches
