pub mod Session
pub mod Reading
pub mod Judging
pub mod Leaving
