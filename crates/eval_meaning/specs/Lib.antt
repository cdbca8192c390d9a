pub mod Preds
pub mod Meaning
pub mod Calls
pub mod Scripts
pub mod BuiltinSafety
pub mod Keeping
pub mod Safety
