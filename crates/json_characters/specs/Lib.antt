pub mod String
