pub mod Holds
pub mod Turns
pub mod Variables
pub mod Wishes
pub mod Seen
