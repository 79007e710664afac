pub mod Ending
pub mod Fed
mod Fronts
mod Growing
mod Opened
mod Replying
mod Spending
mod Stamping
mod Standing
mod Telling
mod Turned
