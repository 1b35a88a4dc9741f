pub mod Changes
pub mod Gaps
pub mod Lent
pub mod Tables
pub mod Taken
