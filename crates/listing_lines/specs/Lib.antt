pub mod Split
pub mod Recover
