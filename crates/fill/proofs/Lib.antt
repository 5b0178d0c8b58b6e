pub mod Made
pub mod Fields
pub mod Entry
pub mod Lines
pub mod Lawful
pub mod Again
pub mod Unique
