pub mod Bounds
pub mod Replies
pub mod Framing
pub mod ReadBack
pub mod Unique
