pub mod Turns
pub mod Leaving
pub mod Listed
pub mod Unique
