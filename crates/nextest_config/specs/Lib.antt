pub mod Board
pub mod Choice
pub mod Merge
pub mod NextestVersion
