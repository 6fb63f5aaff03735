pub mod Diagnostic
pub mod Escapes
pub mod Excerpt
pub mod Format
pub mod Github
pub mod Human
pub mod JsonLine
pub mod Summary
