pub mod WalkLaws
pub mod GatherLaws
pub mod StepLaws
pub mod EndLaws
pub mod ReadLaws
