pub mod Place
pub mod Rows
pub mod Entries
pub mod Memory
pub mod Admitting
pub mod Seeing
pub mod Orders
