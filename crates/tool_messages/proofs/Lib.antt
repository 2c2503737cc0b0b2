mod MessageExamples
pub mod MessageLemmas
mod ShownExamples
