pub mod Utf8
pub mod Decode
pub mod Stream
pub mod Characters
pub mod Meaning
pub mod Utf8Code
