pub mod Digits
pub mod PutLaws
