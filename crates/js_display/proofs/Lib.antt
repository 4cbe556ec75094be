pub mod Lines
pub mod Turns
pub mod Listings
pub mod Openings
pub mod Arguments
pub mod Fixtures
