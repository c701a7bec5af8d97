pub mod Blank
pub mod Calls
pub mod Explored
pub mod Judged
