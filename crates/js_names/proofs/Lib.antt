pub mod Naming
pub mod Placing
pub mod Binding
pub mod Growing
