pub mod AtHand
pub mod Giving
pub mod Composed
