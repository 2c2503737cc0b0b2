pub mod Sources
pub mod Sections
pub mod Seen
pub mod Tables
pub mod Copies
pub mod Ends
pub mod Rows
