pub mod Arithmetic
pub mod Operators
pub mod Instants
pub mod Choices
pub mod Sinks
pub mod Calls
pub mod Settings
