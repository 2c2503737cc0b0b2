pub mod Shared
pub mod Objects
pub mod Marks
pub mod Locales
pub mod Parts
pub mod Joined
pub mod Catalogs
