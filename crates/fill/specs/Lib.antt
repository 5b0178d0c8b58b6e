pub mod Slot
pub mod Entry
pub mod Booked
