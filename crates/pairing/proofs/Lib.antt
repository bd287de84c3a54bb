pub mod Bits
pub mod Sweeping
pub mod Held
pub mod Closing
pub mod Entering
