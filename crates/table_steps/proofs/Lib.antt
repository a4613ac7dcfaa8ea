pub mod CaptureLaws
pub mod CountLaws
pub mod UniqueLaws
pub mod RangeLaws
pub mod Theorem
