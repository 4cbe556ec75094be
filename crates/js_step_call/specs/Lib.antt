pub mod Called
pub mod Leading
