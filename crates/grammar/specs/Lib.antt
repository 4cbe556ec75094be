pub mod Kinds
pub mod Grammar
pub mod Reading
pub mod Tests
pub mod Pairs
pub mod Steps
pub mod Promises
