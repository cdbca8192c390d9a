pub mod Pushing
pub mod Noting
