pub mod Going
pub mod Stepping
pub mod Unique
