mod Examples
pub mod FieldLemmas
