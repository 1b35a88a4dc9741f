pub mod Zeros
pub mod Rows
pub mod Tapes
pub mod Stores
pub mod Texts
