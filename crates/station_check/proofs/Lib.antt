pub mod Firsts
pub mod Findings
pub mod Ending
pub mod Lines
