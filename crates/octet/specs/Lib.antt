pub mod Bytes
pub mod Maybe
pub mod Places
pub mod Splice
pub mod Padded
