pub mod CatalogExamples
pub mod LineLemmas
