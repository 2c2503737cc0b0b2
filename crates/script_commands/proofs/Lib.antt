pub mod ArgumentLemmas
mod CommandExamples
mod ReadExamples
mod HandleExamples
mod CatalogExamples
