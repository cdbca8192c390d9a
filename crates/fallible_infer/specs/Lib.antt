pub mod Infallible
