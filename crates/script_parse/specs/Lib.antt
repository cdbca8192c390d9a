pub mod Places
pub mod Answer
