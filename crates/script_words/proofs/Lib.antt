pub mod ReadLemmas
pub mod WordLemmas
mod WordExamples
mod NumberExamples
mod WholeExamples
