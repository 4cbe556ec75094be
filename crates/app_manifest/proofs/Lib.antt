pub mod Walking
pub mod Said
pub mod Stopping
pub mod Empty
pub mod Scripts
pub mod Windows
