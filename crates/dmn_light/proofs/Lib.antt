pub mod Answering
pub mod Endings
pub mod Fronts
pub mod Memoryless
pub mod Running
pub mod Spending
pub mod Telling
pub mod Turning
