-- What is reported of a platform.
pub mod Flaw
pub mod Near
pub mod Key
pub mod Reading
pub mod Member
pub mod Walk
pub mod Outcome
pub mod Steps
pub mod Hint
pub mod Fault
pub mod Grammar
