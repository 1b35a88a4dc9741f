pub mod Places
pub mod Probes
pub mod Counts
pub mod Examples
pub mod Bounds
pub mod Members
