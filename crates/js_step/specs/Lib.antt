pub mod Kinds
pub mod Resuming
