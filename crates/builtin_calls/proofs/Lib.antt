pub mod Chained
pub mod Lists
pub mod Reading
pub mod Adding
pub mod Keeping
mod CallChecks
