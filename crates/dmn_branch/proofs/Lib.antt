pub mod Keys
pub mod Spending
pub mod Events
pub mod Confirming
pub mod Replaying
pub mod Standing
pub mod Starting
pub mod Judging
pub mod Stepping
pub mod Connecting
mod Every
mod Active
mod History
mod Leaving
mod Adding
mod Ranks
mod Asking
mod Putting
mod Holding
mod Pinning
mod Changing
mod Entries
mod Numbers
mod Mining
mod Punishing
mod Drawing
mod Unasked
mod Blocks
mod Moving
mod Taking
mod Restoring
mod Gathering
mod Returning
mod Telling
mod Handing
