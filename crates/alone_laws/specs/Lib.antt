pub mod Turns
pub mod Sizes
pub mod Fitting
