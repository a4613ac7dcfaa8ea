pub mod NumberLaws
pub mod ReadLaws
