pub mod Rows
pub mod Schemes
pub mod Instances
pub mod NewVariables
