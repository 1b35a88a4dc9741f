pub mod Accepted
pub mod Limits
pub mod Going
pub mod Leaving
pub mod WithTable
