pub mod Longer
pub mod Calls
pub mod Refusals
pub mod Examples
pub mod Changed
