pub mod Line
pub mod Levels
