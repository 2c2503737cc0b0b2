pub mod Streams
pub mod ReadingLemmas
pub mod LineLemmas
mod MemoryExamples
mod Examples
pub mod Slices
pub mod NumberLemmas
pub mod CategoryLemmas
mod WordExamples
pub mod NamedLemmas
mod NamedExamples
