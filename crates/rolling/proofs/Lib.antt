pub mod Keeping
pub mod Filling
pub mod Settling
pub mod Tables
