pub mod LabelPlace
