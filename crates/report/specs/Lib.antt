pub mod Reports
pub mod Printing
