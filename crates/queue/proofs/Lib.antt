pub mod Offering
pub mod Unique
