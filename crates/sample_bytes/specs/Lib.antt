pub mod Encoded
pub mod Wide
