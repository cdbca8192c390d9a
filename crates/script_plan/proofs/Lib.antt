pub mod Lexical
pub mod OneAnswer
pub mod OneList
