pub mod Kind
pub mod File
pub mod Reading
pub mod Parts
