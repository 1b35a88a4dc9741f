pub mod Answers
pub mod Columns
pub mod Digits
pub mod Digests
pub mod Tallies
pub mod Tables
