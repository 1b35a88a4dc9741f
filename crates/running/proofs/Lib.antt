pub mod Choice
pub mod Sweep
