pub mod Reading
pub mod Accepted
pub mod Kept
pub mod Limits
