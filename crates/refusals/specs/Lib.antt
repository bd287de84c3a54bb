pub mod Causes
pub mod Ranges
