pub mod Cut
pub mod CutRoom
