pub mod Frames
pub mod Refusals
