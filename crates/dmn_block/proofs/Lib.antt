pub mod Bounds
pub mod Rules
pub mod Coinbase
pub mod Seen
mod Numbers
