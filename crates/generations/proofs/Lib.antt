pub mod Examples
pub mod Least
pub mod Places
pub mod Numbering
pub mod Newest
pub mod Free
pub mod Says
