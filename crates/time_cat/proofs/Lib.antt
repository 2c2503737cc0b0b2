pub mod StepLemmas
pub mod Whole
mod Examples
