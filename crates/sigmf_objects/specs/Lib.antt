pub mod Fields
pub mod Places
pub mod Global
pub mod GlobalPlaces
pub mod Capture
pub mod Annotation
