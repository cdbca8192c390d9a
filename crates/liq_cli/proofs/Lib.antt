mod Asking
mod Threading
mod Ended
mod Complete
mod Retelling
