pub mod Specimens
pub mod Odd
pub mod Lasts
pub mod Examples
