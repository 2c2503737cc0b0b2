mod PageExamples
pub mod Words
pub mod Pages
pub mod Blocks
mod Examples
pub mod Joining
pub mod Orders
pub mod CommonValues
