pub mod Defs
pub mod Lists
pub mod Proper
pub mod Puts
pub mod Restored
pub mod Formed
