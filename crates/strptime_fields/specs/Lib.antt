pub mod Items
pub mod Keeping
pub mod Longest
pub mod Plain
pub mod Reading
pub mod Scans
pub mod Seen
