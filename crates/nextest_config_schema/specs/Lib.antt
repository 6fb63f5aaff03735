pub mod SchemaPlace
pub mod Patterns
pub mod Values
pub mod Kinds
pub mod Defaults
pub mod Fields
pub mod File
