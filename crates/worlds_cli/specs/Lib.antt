pub mod Answer
pub mod Clauses
pub mod Command
pub mod Converting
pub mod Text
pub mod Reading
