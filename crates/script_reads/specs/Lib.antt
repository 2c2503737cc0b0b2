pub mod Names
pub mod Reads
