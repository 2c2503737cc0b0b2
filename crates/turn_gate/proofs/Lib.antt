pub mod Histories
pub mod Views
pub mod Keeps
pub mod Quotas
pub mod Seats
pub mod Turning
pub mod Ending
pub mod Examples
