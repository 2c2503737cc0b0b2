pub mod Generated
pub mod Summary
pub mod Limits
