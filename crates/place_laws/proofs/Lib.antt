mod Lines
mod Same
