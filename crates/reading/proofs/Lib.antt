pub mod Draws
pub mod Words
pub mod Tails
pub mod Kept
