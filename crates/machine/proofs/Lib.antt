pub mod Kept
pub mod Turns
pub mod Handing
pub mod HandedOut
pub mod Bytes
