pub mod Reading
pub mod Pushing
pub mod NewTypes
pub mod NewKinds
pub mod Instancing
pub mod Builtins
pub mod Openers
