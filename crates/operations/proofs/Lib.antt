pub mod Operands
pub mod Operations
pub mod Arms
