pub mod Kind
pub mod Making
pub mod Least
pub mod Store
pub mod Grid
pub mod Rows
