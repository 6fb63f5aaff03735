pub mod Matches
pub mod UsageError
pub mod Said
pub mod Arguments
