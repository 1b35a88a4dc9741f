pub mod Turns
pub mod Accepted
pub mod Scored
mod TableScored
