pub mod Defs
pub mod Texts
pub mod Answered
pub mod Exchanges
pub mod Replies
pub mod Steps
