pub mod Unique
pub mod Agreed
