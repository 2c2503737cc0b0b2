pub mod Appending
pub mod Calendar
pub mod Kept
pub mod Zones
pub mod Answers
pub mod Cost
pub mod Reading
pub mod Going
