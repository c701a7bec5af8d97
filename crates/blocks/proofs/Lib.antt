pub mod Blocks
pub mod Installs
