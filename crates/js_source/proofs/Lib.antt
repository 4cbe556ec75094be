pub mod Early
pub mod Root
