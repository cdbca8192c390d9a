pub mod Looking
pub mod Skipped
