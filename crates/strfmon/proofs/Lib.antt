pub mod CellLemmas
pub mod DecimalLemmas
pub mod FormatLemmas
pub mod MoneyLemmas
pub mod PartLemmas
pub mod PowerLemmas
mod Examples
