pub use Rattle.lc_base.specs.Reading
pub mod Standard
