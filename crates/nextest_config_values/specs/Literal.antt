pub mod Json
pub mod Key
pub mod Shown
pub mod Text
pub mod Value
