pub mod Lists
pub mod Adding
pub mod Parts
pub mod Unique
pub mod Yielded
pub mod Played
pub mod Windows
pub mod Lines
pub mod Joining
pub mod Tasks
pub mod Living
pub mod Owing
pub mod Silent
pub mod Remaining
pub mod Spelled
pub mod Pieces
mod Rows
