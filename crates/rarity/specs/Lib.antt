pub mod Scores
pub mod Own
