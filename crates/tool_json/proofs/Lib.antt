mod Examples
pub mod JsonLemmas
