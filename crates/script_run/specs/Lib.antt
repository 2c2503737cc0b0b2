pub mod Timed
pub mod Beside
pub mod Workers
pub mod Rounds
