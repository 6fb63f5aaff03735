pub mod FirstCharacters
pub mod PlainLines
pub mod PlainTexts
pub mod Pushes
