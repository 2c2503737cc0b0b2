pub mod Distances
pub mod Subject
pub mod Seen
pub mod Encoding
pub mod Charmap
