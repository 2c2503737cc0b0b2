mod LconvExamples
pub mod CellLemmas
mod CellExamples
mod TableExamples
mod ValueExamples
