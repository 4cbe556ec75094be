pub mod Read
pub mod Units
pub mod Cuts
