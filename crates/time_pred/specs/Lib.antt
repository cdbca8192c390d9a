pub mod Marks
pub mod Predicates
pub mod Stored
pub mod View
