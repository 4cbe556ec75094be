pub mod Checked
pub mod Comments
pub mod Kept
mod MarkNumbers
pub mod NameUnits
pub mod Names
pub mod NestingLemmas
pub mod Order
pub mod Places
pub mod Results
pub mod Shapes
pub mod Texts
pub mod TokenLists
pub mod Utf16
pub mod Values
