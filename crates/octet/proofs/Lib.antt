pub mod Cases
pub mod Lists
pub mod Places
pub mod Padded
pub mod Once
pub mod Unique
