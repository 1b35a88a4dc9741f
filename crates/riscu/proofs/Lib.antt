pub mod Registers
mod Widths
