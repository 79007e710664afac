mod Plainly
mod Jsons
mod Writing
mod Exchanging
mod Once
mod Behind
mod Framing
