pub mod NumberLaws
pub mod MemberNameLaws
