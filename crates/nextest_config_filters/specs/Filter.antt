-- What is reported of a filter.
pub mod Predicate
pub mod Reading
pub mod Argument
pub mod Expression
pub mod Regex
pub mod Walk
pub mod Steps
pub mod Hint
pub mod Fault
pub mod Grammar
pub use Fault.{IsFilterFault}
