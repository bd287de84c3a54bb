pub mod Answers
pub mod Pages
pub mod Cuts
pub mod Served
