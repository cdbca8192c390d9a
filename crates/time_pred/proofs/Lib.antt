pub mod Rows
pub mod Forms
mod Steady
