pub mod Lines
pub mod Catalogs
pub mod Outcome
pub mod Thread
pub mod Board
pub mod Seen
pub mod Granted
