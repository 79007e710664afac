pub mod Defs
pub mod Tells
pub mod Formed
pub mod Once
pub mod Same
pub mod Quorums
