pub mod Derived
pub mod Rules
