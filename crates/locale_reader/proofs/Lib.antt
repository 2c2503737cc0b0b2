mod SourceExamples
pub mod WordLemmas
pub mod Lists
pub mod LineSteps
pub mod Sections
