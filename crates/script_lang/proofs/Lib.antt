pub mod KeptLemmas
pub mod ReadLemmas
pub mod StepLemmas
pub mod InstallLemmas
mod BundleExamples
mod KnownExamples
