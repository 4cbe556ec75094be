pub mod Symbols
pub mod Ready
pub mod Input
pub mod Operators
pub mod Grammar
pub mod Statements
pub mod Nesting
pub mod Parsing
