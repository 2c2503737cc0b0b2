pub mod WrittenLemmas
mod Examples
