pub mod Told
pub mod Lines
pub mod Parts
pub mod Places
pub mod Books
pub mod Made
pub mod Limits
pub mod Laws
