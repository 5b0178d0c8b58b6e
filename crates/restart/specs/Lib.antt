pub mod Restart
pub mod Steps
