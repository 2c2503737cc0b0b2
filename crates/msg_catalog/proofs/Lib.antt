mod Examples
pub mod Orders
pub mod Lining
pub mod Decoding
pub mod Reading
