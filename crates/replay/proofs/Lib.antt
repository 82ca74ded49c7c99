mod Choosing
mod Lines
mod Names
mod Numbers
mod Replays
pub mod Sample
mod Schedules
mod Worked
