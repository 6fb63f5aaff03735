pub mod Lines
pub mod Blocks
pub mod Versions
pub mod SourceLines
pub mod Layouts
pub mod OneReport
