pub mod Items
pub mod Conv
pub mod Lent
