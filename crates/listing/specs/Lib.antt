pub mod Lines
pub mod LineParts
pub mod Listing
