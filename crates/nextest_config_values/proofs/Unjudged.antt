-- Durations that the grammar doesn't take: what is left out of them.
pub mod Fractions
pub mod Gaps
pub mod Judged
pub mod Runs
