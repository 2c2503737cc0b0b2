-- cited by public clauses
pub mod Words
pub mod Places
pub mod Logical
pub mod Rows
pub mod Atoms
pub mod Pieces
pub mod Shapes
pub mod Tokens
pub mod Fields
pub mod Spelling
-- how the code keeps it, and goes step by step
pub mod Held
pub mod Stored
pub mod Steps
pub mod Cells
pub mod Limits
