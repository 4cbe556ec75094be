pub mod Made
pub mod Lasting
