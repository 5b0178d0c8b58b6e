pub mod Rules
pub mod Kept
pub mod Crossed
pub mod Lawful
pub mod Listed
pub mod Noted
pub mod Correction
pub mod Unique
