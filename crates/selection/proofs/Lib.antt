pub mod Pairs
pub mod Finding
pub mod KeptNumbers
pub mod Placing
pub mod States
