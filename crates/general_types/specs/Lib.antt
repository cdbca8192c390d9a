pub mod Holding
pub mod Walks
pub mod Renewing
pub mod Generals
pub mod Numbering
pub mod Texts
