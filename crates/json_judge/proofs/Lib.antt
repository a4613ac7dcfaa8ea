pub mod SeenLaws
pub mod ValueLaws
pub mod PassLaws
pub mod JudgeLaws
