mod Marking
mod Players
mod Telling
mod Chains
mod Counting
mod Kept
