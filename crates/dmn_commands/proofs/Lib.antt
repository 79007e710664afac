mod Counting
mod Running
