pub mod Codes
pub mod Line
