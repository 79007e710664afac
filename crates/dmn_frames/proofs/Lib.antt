pub mod Cutting
pub mod Framing
pub mod Heading
pub mod Spending
pub mod Stamping
pub mod Turns
