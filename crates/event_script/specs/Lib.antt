pub mod Allowed
pub mod Lines
pub mod Script
