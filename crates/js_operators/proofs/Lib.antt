pub mod Orders
pub mod Parts
pub mod PointEnds
pub mod Settled
