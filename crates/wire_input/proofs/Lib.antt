pub mod Placing
pub mod PlainParts
pub mod Said
