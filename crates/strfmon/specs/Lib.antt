pub mod Decimals
pub mod Formats
pub mod Cells
pub mod Looks
pub mod Seen
pub mod Money
pub mod Shown
