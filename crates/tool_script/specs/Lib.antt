pub mod Commands
pub mod Explained
pub mod Played
pub mod Laws
pub mod Limits
