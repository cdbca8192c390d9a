pub mod Environment
pub mod Flow
pub mod Fitting
pub mod Counts
pub mod Defs
pub mod Statements
pub mod Whole
