pub mod NameLaws
pub mod WalkLaws
pub mod ValueLaws
pub mod ObjectLaws
pub mod GlobalLaws
