pub mod Sorted
pub mod Answering
pub mod Unbuffered
pub mod Ranks
pub mod Existence
pub mod Calling
pub mod Unread
pub mod Marks
pub mod Choosing
pub mod Crossed
pub mod Offering
pub mod Unfailing
pub mod Turning
mod Leaves
mod Plans
mod Rows
mod CallRows
mod TitleRows
