pub mod Value
pub mod Plain
pub mod Place
pub mod Readers
