pub mod Leaves
pub mod Standing
pub mod Readers
pub mod Stores
pub mod Inner
pub mod Lanes
