pub mod Equal
pub mod Fading
pub mod Kept
pub mod Restful
pub mod Opened
pub mod Levels
pub mod Gone
pub mod Taking
pub mod Joining
pub mod Making
pub mod Readers
mod Titled
mod Above
mod Children
pub mod SubRuns
mod SubSteps
pub mod Behind
pub mod FilledOn
pub mod Settling
