pub use Rattle.lc_base.specs.Reading
pub mod Monetary
pub mod Currency
pub mod Kept
