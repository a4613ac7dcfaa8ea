pub mod Turns
pub mod TextBytes
pub mod Blocks
pub mod Lists
pub mod Group
