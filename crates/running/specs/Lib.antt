pub mod Running
pub mod RowRuns
