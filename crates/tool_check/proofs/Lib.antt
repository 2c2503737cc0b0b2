mod FindingExamples
pub mod HeaderLemmas
mod FaultExamples
pub mod LookLemmas
pub mod CopiedLemmas
pub mod FaultLemmas
pub mod FoundLemmas
mod Examples
pub mod SummaryLemmas
pub mod CheckedLemmas
pub mod OddLemmas
