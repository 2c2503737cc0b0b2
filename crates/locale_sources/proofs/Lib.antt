mod CopyExamples
pub mod TableLemmas
pub mod CopyLemmas
