pub mod LineLaws
pub mod RecoverLaws
pub mod Theorem
