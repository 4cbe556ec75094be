pub mod Making
pub mod Saying
pub mod Lasting
