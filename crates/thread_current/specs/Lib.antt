pub mod Seen
pub mod Thread
pub mod Causes
pub mod Mine
