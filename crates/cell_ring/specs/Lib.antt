pub mod Lanes
pub mod MarkRuns
pub mod Rings
