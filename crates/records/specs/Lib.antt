pub mod Lists
pub mod Sum
pub mod Lots
