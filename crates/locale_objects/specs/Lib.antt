pub mod LibraryBox
pub mod Builder
pub mod Lending
pub mod Libraries
