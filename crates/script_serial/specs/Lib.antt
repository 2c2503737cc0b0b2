pub mod Laws
pub mod Alone
pub mod Effect
pub mod Session
