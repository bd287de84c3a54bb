pub mod Amounts
pub mod Kept
