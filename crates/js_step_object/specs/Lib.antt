pub mod Defining
pub mod Members
pub mod Elements
