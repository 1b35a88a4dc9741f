pub mod Scans
pub mod Passed
pub mod Tests
pub mod Fitting
