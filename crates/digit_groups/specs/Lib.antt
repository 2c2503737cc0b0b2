pub mod Digits
pub mod Groups
pub mod Numbers
pub mod Conversions
pub mod Formats
