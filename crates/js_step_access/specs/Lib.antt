pub mod Instances
pub mod Removing
