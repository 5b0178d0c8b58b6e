pub mod ReadLaws
pub mod SumLaws
pub mod Decimals
pub mod Puts
pub mod Layouts
pub mod Unique
