pub mod Segments
pub mod Lengths
pub mod Kept
