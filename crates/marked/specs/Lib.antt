pub mod Gaps
pub mod Marks
