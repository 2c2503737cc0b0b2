pub mod CountLemmas
pub mod DigitLemmas
pub mod FormatLemmas
pub mod GroupLemmas
pub mod NumberLemmas
pub mod TextLemmas
mod Examples
