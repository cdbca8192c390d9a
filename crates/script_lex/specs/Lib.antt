pub mod Bytes
pub mod Words
pub mod Spelling
pub mod Tokens
pub mod Reading
pub mod Gives
pub mod Parts
