pub mod Report
pub mod Crossed
pub mod Noted
pub mod Correction
pub mod Carried
