pub mod RecordTurns
pub mod Replaying
pub mod Replays
