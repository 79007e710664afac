mod Fronts
mod Fed
mod Served
mod Chains
