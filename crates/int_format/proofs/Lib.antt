pub mod DigitLemmas
pub mod IntLemmas
pub mod ReadLemmas
mod Examples
