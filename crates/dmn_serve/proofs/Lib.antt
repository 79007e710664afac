mod Replying
mod One
mod Turning
mod Running
mod Passing
mod Opened
mod Spending
mod Ending
