mod Counts
mod Naming
mod Placed
mod Shows
