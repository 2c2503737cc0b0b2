mod CompileExamples
pub mod CompileLemmas
mod Examples
pub mod LibraryLemmas
pub mod Numbered
pub mod Installable
mod BlockExamples
pub mod SizeLemmas
pub mod WithinLemmas
pub mod JoinedLemmas
pub mod JoinedNumbered
mod JoinedExamples
