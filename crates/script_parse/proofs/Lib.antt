mod Exact
mod Parsed
mod Nesting
mod Only
