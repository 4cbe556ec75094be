pub mod Yields
pub mod World
