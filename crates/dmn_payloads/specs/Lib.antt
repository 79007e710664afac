pub mod Defs
pub mod Payloads
pub mod Commitments
pub mod Mined
pub mod Scripts
pub mod Fault
