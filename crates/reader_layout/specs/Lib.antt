pub mod Layout
pub mod Entries
pub mod Stages
pub mod Claim
