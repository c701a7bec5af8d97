pub mod Calls
pub mod Judging
pub mod Records
pub mod Sheets
