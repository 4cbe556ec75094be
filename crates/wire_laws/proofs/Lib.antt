pub mod Cut
pub mod Leaves
pub mod Items
pub mod Roots
pub mod Viewed
pub mod Whole
pub mod Samples
