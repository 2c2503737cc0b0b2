pub mod Bound
pub mod Law
pub mod LongestLaw
pub mod NumberLemmas
pub mod ReadBack
pub mod Scanning
pub mod Shorter
pub mod Through
mod Examples
