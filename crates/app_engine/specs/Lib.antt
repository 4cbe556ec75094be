pub mod Log
pub mod Laws
pub mod Machines
pub mod Applications
pub mod Live
pub mod Scripts
