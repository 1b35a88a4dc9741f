pub mod ByTable
pub mod Entry
