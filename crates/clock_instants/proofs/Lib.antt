pub mod Picks
pub mod Marking
pub mod Unmarked
pub mod Demanded
pub mod Beginning
pub mod Reading
mod Steadying
mod Stretched
pub mod Samples
pub mod Ahead
pub mod Gone
pub mod Kept
mod Asking
pub mod Needing
pub mod Supplied
mod Laning
