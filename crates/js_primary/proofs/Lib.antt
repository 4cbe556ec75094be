pub mod Numbers
pub mod Evaluating
pub mod Composing
pub mod Summing
