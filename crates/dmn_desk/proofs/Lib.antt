pub mod Listing
mod Heights
mod Hashing
mod Sending
mod Paging
mod Keeping
mod Diffing
mod Commanding
mod Marking
mod Rowing
pub mod Bodies
pub mod Asking
