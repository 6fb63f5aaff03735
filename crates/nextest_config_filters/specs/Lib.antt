pub mod Escape
pub mod Fault
pub mod Filter
pub mod Front
pub mod Pieces
pub mod Platform
pub mod Steps
pub mod Text
