pub mod Texts
pub mod Needs
pub mod Blames
pub mod Faults
