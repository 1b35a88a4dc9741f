pub mod Means
pub mod Defaults
