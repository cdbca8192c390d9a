mod Seconds
mod Takings
