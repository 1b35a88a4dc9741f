pub mod Accepted
pub mod Resuming
pub mod Born
pub mod NewRows
