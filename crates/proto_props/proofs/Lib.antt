pub mod Turns
pub mod Exchanges
pub mod Hardening
pub mod Arrays
pub mod Puts
pub mod Deciding
pub mod Pushes
pub mod Fitting
