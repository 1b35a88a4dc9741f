pub mod Chosen
pub mod Gathering
pub mod Passing
