pub mod Form
pub mod Store
pub mod Load
pub mod LoadParts
