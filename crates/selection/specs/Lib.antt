pub mod Selecting
pub mod Scanning
pub mod Places
