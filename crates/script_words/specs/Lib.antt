pub mod Names
pub mod Spans
pub mod Words
pub mod Numbers
pub mod Seen
pub mod Tables
pub mod Limits
