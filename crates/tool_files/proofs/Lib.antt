pub mod SizeLemmas
mod ToldExamples
pub mod ToldLemmas
mod FileExamples
pub mod FileLemmas
pub mod PartLemmas
