pub mod Pairs
pub mod Deals
pub mod Kept
