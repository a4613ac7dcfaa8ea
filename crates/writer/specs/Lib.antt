pub mod Metadata
pub mod Writer
pub mod TextParts
