pub mod Choice
pub mod Message
pub mod Shown
pub mod Status
