pub mod JoinLaws
pub mod Walk
pub mod PiecesLaws
pub mod SampleLaws
pub mod CopyCode
pub mod ByteLaws
pub mod Laws
