pub mod Absurd
pub mod Choices
pub mod Floats
pub mod Fronts
pub mod Lists
pub mod Numbers
pub mod Parts
pub mod Sums
