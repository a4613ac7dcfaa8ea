pub mod ExtensionLaws
pub mod EntriesLaws
