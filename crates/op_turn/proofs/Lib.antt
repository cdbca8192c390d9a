pub mod Offering
pub mod Standing
