pub mod Entries
pub mod Resuming
