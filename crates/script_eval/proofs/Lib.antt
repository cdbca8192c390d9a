pub mod Answered
pub mod Statements
