pub mod Extensions
