pub mod Opening
pub mod Calls
pub mod Whole
