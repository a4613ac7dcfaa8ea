pub mod LookupLaws
pub mod DatatypeLaws
pub mod FormLaws
