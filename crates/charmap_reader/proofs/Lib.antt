mod DistanceLemmas
pub mod Adding
pub mod Moving
pub mod Headers
pub mod Bodies
pub mod EncodingLemmas
mod CharmapExamples
mod LimitExamples
