pub mod Setup
pub mod Numbers
