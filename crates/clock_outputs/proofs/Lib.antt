pub mod Places
pub mod Mapped
pub mod Pieces
pub mod Taken
pub mod Gives
pub mod Fed
