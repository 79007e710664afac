mod Taking
mod Sending
mod Parts
mod Replay
pub mod Passing
pub mod Crash
pub mod Places
pub mod Reading
