pub mod Halves
pub mod Fronts
pub mod Outcomes
