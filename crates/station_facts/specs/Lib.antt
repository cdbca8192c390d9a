pub mod Members
pub mod Plans
pub mod Files
pub mod Tokens
pub mod Hours
