pub mod Spans
pub mod Tables
pub mod Cases
pub mod Texts
pub mod Listing
pub mod Looked
