pub mod Ends
pub mod Local
pub mod Same
pub mod Sides
pub mod Borders
