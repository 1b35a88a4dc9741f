pub mod Among
pub mod Bounds
pub mod Same
pub mod Turns
