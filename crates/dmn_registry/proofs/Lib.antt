pub mod Lengths
pub mod Blocks
pub mod Verdicts
pub mod Apart
mod Keeping
mod Records
mod Syncing
pub mod Once
pub mod Resting
mod Depths
mod Nearing
mod Taking
mod Snapping
mod Beginning
mod Stopping
mod Pinning
mod Told
pub mod Between
