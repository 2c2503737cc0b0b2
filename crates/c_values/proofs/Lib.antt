mod BufferLemmas
mod CasedLemmas
mod Examples
mod FaultExamples
mod NameLemmas
mod NumberLemmas
mod TableLemmas
mod TextLemmas
