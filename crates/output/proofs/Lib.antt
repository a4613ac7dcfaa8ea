pub mod Writing
pub mod RowLines
