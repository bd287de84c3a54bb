pub mod Cuts
pub mod Turns
pub mod Firsts
