pub mod Formats
pub mod Decoding
pub mod Registers
pub mod Narrow
