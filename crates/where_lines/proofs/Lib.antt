pub mod Walks
pub mod Faults
pub mod Beginnings
pub mod Causing
pub mod Sourcing
mod Passed
mod Breaking
