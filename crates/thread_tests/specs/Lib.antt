pub mod Back
pub mod Rounds
