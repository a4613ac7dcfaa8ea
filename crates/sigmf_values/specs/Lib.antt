pub mod Values
pub mod ValueCode
