pub mod LconvChars
pub mod Cells
pub mod Table
pub mod LookUp
pub mod Rows
pub use Rattle.lc_base.specs.Reading
pub mod Keywords
pub mod Rules
