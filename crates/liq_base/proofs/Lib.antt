pub mod Shelves
pub mod Places
