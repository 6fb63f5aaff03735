-- What stands between the parts of a value, and that of one text there is one walk.
pub mod Elements
pub mod Marks
pub mod Members
pub mod Once
pub mod Ranges
pub mod Values
pub mod Walks
