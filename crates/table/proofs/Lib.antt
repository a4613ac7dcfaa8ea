pub mod Bools
pub mod RowLaws
pub mod ObeyLaws
pub mod TableLaws
pub mod LocateLaws
pub mod Filling
pub mod SummaryLaws
