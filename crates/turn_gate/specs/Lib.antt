pub mod History
pub mod Rule
pub mod Callers
pub mod Ends
pub mod Register
