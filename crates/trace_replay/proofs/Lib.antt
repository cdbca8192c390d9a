pub mod Stopping
pub mod Rendering
pub mod Recalling
pub mod Sequence
pub mod Playback
pub mod Lasting
pub mod Proceeding
pub mod Counting
