pub mod Takes
pub mod Demands
pub mod Resting
pub mod Sides
pub mod Held
pub mod Stretches
pub mod Finishing
pub mod Instants
