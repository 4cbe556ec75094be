pub mod Fitting
pub mod Left
pub mod Settling
pub mod Targets
