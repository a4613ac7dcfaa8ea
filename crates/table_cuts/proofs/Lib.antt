pub mod KeepLaws
pub mod CutLaws
pub mod CutCode
