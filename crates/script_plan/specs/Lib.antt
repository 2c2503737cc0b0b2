pub mod Plan
pub mod Serial
pub mod Prints
pub mod Isolation
pub mod Private
