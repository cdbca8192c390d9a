pub mod Lists
pub mod Counts
pub mod Paths
pub mod Grown
pub mod Drafts
