pub mod Cuts
pub mod Heads
pub mod IndexLaws
pub mod Looks
pub mod Written
pub mod Worked
pub mod Unique
