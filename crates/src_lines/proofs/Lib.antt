mod OperandExamples
pub mod Celling
pub mod Shaping
pub mod Operands
pub mod Fielding
pub mod Opening
pub mod Runs
pub mod Itemizing
pub mod Naming
pub mod Spelt
pub mod Spellings
mod Examples
pub mod Splitting
pub mod Storing
pub mod Positions
