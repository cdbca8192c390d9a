pub mod Fronts
pub mod Apart
pub mod Worlds
pub mod Going
pub mod Lawful
pub mod Endings
pub mod Records
