pub mod Defs
pub mod Tx
pub mod Coinbase
pub mod Fault
