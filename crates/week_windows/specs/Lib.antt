pub mod Windows
pub mod Told
pub mod Known
