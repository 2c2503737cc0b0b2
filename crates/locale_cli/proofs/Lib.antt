pub mod Digits
pub mod Examples
pub mod Making
pub mod Outputs
mod RequestExamples
pub mod Statuses
pub mod Summaries
mod Writing
