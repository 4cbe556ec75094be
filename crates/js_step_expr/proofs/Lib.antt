pub mod Applied
pub mod Fitted
pub mod Numbers
pub mod Settled
pub mod Templates
pub mod Words
pub mod Written
