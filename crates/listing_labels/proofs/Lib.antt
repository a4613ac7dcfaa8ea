pub mod TextLaws
pub mod LabelLaws
