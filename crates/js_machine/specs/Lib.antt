pub mod Parts
pub mod Frames
pub mod Does
pub mod Defaults
pub mod Closed
