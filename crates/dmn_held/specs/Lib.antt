pub mod Defs
pub mod Row
pub mod Lists
pub mod Present
pub mod Coinbase
pub mod Height
pub mod ToEnd
pub mod Snapshot
