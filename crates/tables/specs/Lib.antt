pub mod Numbered
pub mod Lookups
