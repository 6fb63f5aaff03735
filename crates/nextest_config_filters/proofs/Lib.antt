pub mod Characters
pub mod Filters
pub mod Fronts
pub mod Patterns
pub mod Platforms
pub mod Ranges
pub mod Steps
pub mod Tests
