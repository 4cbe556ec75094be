pub mod Nullish
