pub mod Serving
pub mod Entry
pub mod Resuming
