pub mod Ranges
pub mod Concrete
pub mod Kept
