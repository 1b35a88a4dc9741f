pub mod Writing
pub mod Outputs
