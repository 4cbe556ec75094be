pub mod Choices
pub mod Fitting
