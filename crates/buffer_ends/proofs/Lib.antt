pub mod Places
pub mod Steps
pub mod EndSteps
pub mod Windows
pub mod Beginnings
pub mod Counting
pub mod Bordering
