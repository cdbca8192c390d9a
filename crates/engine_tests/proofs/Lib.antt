mod Fronts
mod Outputs
