pub mod Calls
pub mod Copies
pub mod Selection
pub mod Series
pub mod Rounds
pub mod Demand
pub mod Ages
pub mod Handed
