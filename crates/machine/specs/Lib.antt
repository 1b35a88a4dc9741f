pub mod Steps
pub mod Runs
pub mod Pauses
pub mod Handing
pub mod Writes
pub mod HandedOut
