pub mod Pages
pub mod FillsAlone
pub mod Unique
