pub mod StageLaws
pub mod TopLaws
pub mod ArrayLaws
pub mod ReadLaws
pub mod PartLaws
