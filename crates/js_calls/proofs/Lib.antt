mod Defaulted
mod Called
mod Constructed
mod Reading
mod Joining
mod Storing
pub mod Lookups
mod Rebinding
mod Fitting
mod Stored
mod Meanings
mod Placing
