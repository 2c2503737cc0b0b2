pub use Rattle.lc_base.specs.Reading
pub mod NumericValues
pub mod Numeric
