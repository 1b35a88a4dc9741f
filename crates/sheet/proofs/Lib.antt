pub mod Accepting
pub mod Defaults
