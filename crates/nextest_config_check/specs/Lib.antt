pub mod CommandLine
pub mod Layout
pub mod Report
pub mod Streams
