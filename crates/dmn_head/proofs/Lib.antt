mod Taking
pub mod Heading
mod Numbers
mod Named
mod Routing
mod Seeking
mod Parts
mod Planning
pub mod Once
