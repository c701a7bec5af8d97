pub mod Rings
pub mod Pops
