pub mod Places
pub mod Parts
pub mod Walking
pub mod Going
