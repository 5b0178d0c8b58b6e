pub mod Showing
pub mod Upto
pub mod Unique
