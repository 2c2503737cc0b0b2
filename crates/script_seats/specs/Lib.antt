pub mod Seated
pub mod SeatLaws
pub mod Places
