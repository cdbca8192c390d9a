pub mod Times
pub mod Works
pub mod States
pub mod Takes
pub mod Ticks
pub mod Passing
pub mod Histories
pub mod Stretches
