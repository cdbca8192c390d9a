pub mod Numbering
pub mod Blaming
pub mod Chains
pub mod Children
pub mod Needed
pub mod Reddening
