pub mod MemberLemmas
pub mod NameLemmas
pub mod AnswerLemmas
pub mod ItemLemmas
pub mod NumberLemmas
mod PrintedExamples
