pub mod Counting
pub mod Showing
pub mod Pointing
pub mod Starts
pub mod Naming
