pub mod Spots
pub mod Cursors
pub mod Words
pub mod Numbers
pub mod Directives
pub mod Texts
pub mod Books
pub mod Messages
