pub mod Blocks
pub mod Calls
pub mod Fitting
