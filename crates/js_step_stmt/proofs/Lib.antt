pub mod Choosing
pub mod Ending
pub mod Looping
pub mod Making
pub mod Stacking
pub mod Fitting
pub mod Leaving
