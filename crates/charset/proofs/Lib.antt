pub mod HexLemmas
pub mod Encodings
pub mod Named
pub mod DigitLemmas
pub mod Padding
pub mod ShortBytes
pub mod NameLemmas
pub mod ValueLemmas
pub mod ListedLemmas
mod ByteStringLemmas
mod FrontLemmas
mod TailLemmas
pub mod BlockLemmas
mod SpanLemmas
pub mod Adding
mod Examples
pub mod Shortest
