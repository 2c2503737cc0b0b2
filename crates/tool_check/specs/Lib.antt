pub mod Findings
pub mod Texts
pub mod Looks
pub mod Found
pub mod Odd
pub mod Summary
pub mod Checked
pub mod Limits
