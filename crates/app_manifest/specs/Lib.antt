pub mod Names
pub mod Manifest
pub mod Answer
pub mod App
pub mod Clauses
