pub mod CommandLemmas
pub mod ExplainedLemmas
pub mod WrittenLemmas
mod Examples
