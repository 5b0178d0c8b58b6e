pub mod Laying
pub mod Told
pub mod Unique
