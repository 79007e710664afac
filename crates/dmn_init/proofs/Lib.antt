mod Reading
pub mod Starting
