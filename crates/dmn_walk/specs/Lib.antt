pub mod Copy
pub mod Cursor
pub mod Defs
pub mod Delta
pub mod Page
