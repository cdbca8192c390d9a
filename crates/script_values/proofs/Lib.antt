pub mod Rows
pub mod Arithmetic
pub mod Steps
pub mod Noting
pub mod Finding
pub mod Searches
pub mod Chains
mod NumberChecks
