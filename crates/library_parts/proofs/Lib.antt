pub mod BlockLemmas
pub mod SizeLemmas
pub mod PartLaws
mod Examples
