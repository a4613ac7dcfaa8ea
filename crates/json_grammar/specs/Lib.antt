pub mod Grammar
pub mod ByPlace
pub mod Skip
pub mod Stands
