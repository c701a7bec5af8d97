pub mod Exported
pub mod Why
