pub mod Lent
pub mod Limits
pub mod Rows
pub mod Valid
