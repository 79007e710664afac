pub mod Defs
pub mod Headers
pub mod Coinbase
pub mod Step
pub mod Collision
pub mod Sound
