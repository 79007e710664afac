pub mod Defs
pub mod Tags
pub mod Masternodes
pub mod Commitments
pub mod Blocks
pub mod Headers
