pub mod Points
pub mod Sheets
pub mod Days
pub mod Balances
