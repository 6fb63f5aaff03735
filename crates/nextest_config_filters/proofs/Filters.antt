-- What is reported of filters.
pub mod Arguments
pub mod Documented
pub mod DocumentedFilters
pub mod DocumentedRegexes
pub mod Predicates
pub mod Readings
pub mod Regexes
pub mod Steps
pub mod TextEnds
pub mod Walks
