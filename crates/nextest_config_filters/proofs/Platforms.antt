-- What is reported of platforms.
pub mod Outcomes
pub mod Documented
pub mod DocumentedPlatforms
pub mod Laws
pub mod Readings
pub mod Rests
pub mod Steps
pub mod Walks
