pub mod Loading
pub mod Lent
