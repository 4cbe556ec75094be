pub mod Supplying
pub mod Coming
pub mod Pools
pub mod Awaiting
pub mod Beginning
pub mod Resuming
pub mod Passing
