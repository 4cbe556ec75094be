pub mod Walk
pub mod Names
pub mod Rules
pub mod Faults
