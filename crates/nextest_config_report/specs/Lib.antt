pub mod ExitStatus
pub mod Lines
pub mod Names
pub mod Show
pub mod Source
pub mod Streams
