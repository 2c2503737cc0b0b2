pub use Rattle.lc_base.specs.Reading
pub mod MessagesValues
pub mod Messages
