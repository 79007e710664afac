pub mod Defs
pub mod Entry
pub mod Keys
pub mod Page
