pub mod Writing
pub mod Defined
pub mod Making
pub mod Going
pub mod Membership
pub mod Pushing
pub mod Lasting
