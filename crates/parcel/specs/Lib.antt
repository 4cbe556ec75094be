pub mod Keys
pub mod Checked
pub mod Plain
pub mod Sides
pub mod Turn
pub mod Text
