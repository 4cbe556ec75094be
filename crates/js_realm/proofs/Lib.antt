pub mod Listing
pub mod Adding
pub mod Beginning
pub mod Changing
pub mod Supplying
