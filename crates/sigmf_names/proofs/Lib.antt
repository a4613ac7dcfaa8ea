pub mod NameLaws
mod DecodedLaws
