mod Full
mod Pays
mod Replays
mod States
mod Few
mod Mining
mod Heights
mod Matching
