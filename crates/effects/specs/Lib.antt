pub mod Arithmetic
pub mod Effects
pub mod Reach
