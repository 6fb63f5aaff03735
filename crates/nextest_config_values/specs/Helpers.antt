-- Checks of texts that several settings share.
pub mod Identifiers
pub mod Paths
pub mod PathsLaws
