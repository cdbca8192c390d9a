pub mod Read
pub mod Words
pub mod Replays
pub mod Verdicts
pub mod Summary
pub mod Prepared
pub mod Jobs
