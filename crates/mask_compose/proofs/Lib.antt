pub mod Examples
pub mod NameLemmas
pub mod SpanLemmas
