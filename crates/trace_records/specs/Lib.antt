pub mod Told
pub mod Clocks
pub mod Passes
pub mod Traces
pub mod Listings
