pub mod Judged
pub mod Levels
pub mod Limits
pub mod Numbers
pub mod Printed
pub mod UnknownKeys
