pub mod ByTable
pub mod Entry
pub mod Searching
