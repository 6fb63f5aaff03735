-- A board of sources that are replaced and withdrawn.
pub mod RolePair
pub mod Slots
pub mod Refusals
pub mod Commands
