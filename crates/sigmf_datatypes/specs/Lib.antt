pub mod Datatypes
pub mod Entry
