pub mod Numbers
pub mod Ranking
pub mod Bits
pub mod Last
pub mod First
pub mod Least
pub mod Stored
