pub mod Moving
pub mod Lasting
pub mod Opened
