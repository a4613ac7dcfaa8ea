pub mod Lookup
pub mod Texts
pub mod Form
pub mod FormCode
