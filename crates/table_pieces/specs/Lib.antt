pub mod Pieces
pub mod Run
pub mod Copy
pub mod Bytes
