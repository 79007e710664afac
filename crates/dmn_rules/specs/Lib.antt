pub mod Defs
pub mod Payload
pub mod Provider
pub mod Change
pub mod Table
pub mod Looking
