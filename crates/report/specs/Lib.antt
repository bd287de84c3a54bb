pub mod Sound
pub mod State
pub mod Report
pub mod Amounts
pub mod Bounds
