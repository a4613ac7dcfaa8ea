pub mod TextLaws
pub mod LengthLaws
