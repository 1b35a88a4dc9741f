pub mod Cells
pub mod Counters
pub mod Probes
pub mod Lent
