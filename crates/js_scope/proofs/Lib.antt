pub mod Walks
pub mod Trees
pub mod Found
pub mod Places
