pub mod DatetimeLaws
pub mod DirectLaws
