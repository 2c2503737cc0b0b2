pub mod Rows
pub mod Words
pub mod Limits
pub mod Table
