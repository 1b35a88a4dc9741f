pub mod Means
pub mod Tallies
