pub mod Sums
pub mod Products
pub mod Kinds
pub mod Ints
pub mod Floors
pub mod Moves
