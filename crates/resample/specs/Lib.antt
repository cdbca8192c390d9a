pub mod Bytes
pub mod Resampled
pub mod Places
pub mod Reciprocals
pub mod Changes
