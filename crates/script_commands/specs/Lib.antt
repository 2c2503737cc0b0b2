pub mod Known
pub mod InRange
pub mod Commands
pub mod Limits
