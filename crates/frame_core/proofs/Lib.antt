pub mod Bytes
pub mod Chunks
pub mod Lanes
pub mod MarkRuns
pub mod Laws
pub mod Sides
pub mod Halves
pub mod OtherRates
