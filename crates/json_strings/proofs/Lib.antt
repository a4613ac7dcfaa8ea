pub mod DecodeLaws
pub mod Theorem
pub mod StepLaws
pub mod LengthLaws
pub mod TextUtf8
