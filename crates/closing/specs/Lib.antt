pub mod Rules
pub mod Pairs
pub mod Choices
