pub mod MarkLaws
mod Examples
mod MarkExamples
