pub mod Joined
pub mod NumberExamples
pub mod NumberLemmas
pub mod ReadExamples
