-- In which order the pieces of a document's trees stand.
pub mod Bounds
pub mod Changes
pub mod Holds
pub mod Keys
pub mod Ranges
pub mod Settled
pub mod Values
pub mod Walks
