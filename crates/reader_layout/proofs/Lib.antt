pub mod EntryLaws
pub mod StageLaws
pub mod JudgeLaws
pub mod WriteLaws
pub mod Theorem
