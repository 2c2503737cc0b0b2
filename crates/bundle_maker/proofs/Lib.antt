pub mod Appended
mod GeneratedExamples
pub mod Lengths
pub mod LocaleBytes
pub mod Numbers
mod SummaryExamples
pub mod Tallies
