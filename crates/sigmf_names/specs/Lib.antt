pub mod Names
pub mod Lookup
pub mod LookupCode
pub mod DecodedCode
