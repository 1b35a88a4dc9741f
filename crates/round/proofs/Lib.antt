pub mod Parts
pub mod Ordered
pub mod Keeping
pub mod Running
pub mod Limits
pub mod Filling
