pub mod Entering
pub mod Leaving
pub mod Passing
pub mod Turns
pub mod Closing
