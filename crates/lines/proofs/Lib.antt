pub mod Digits
pub mod Inputs
