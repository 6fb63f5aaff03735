pub mod Findings
pub mod Profile
