pub mod Tables
pub mod Passes
pub mod Ends
pub mod Rows
