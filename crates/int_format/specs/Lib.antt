pub mod Digits
pub mod Formats
pub mod Ints
