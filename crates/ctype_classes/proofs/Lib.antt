mod ClassLaw
mod Examples
pub mod LineLemmas
pub mod CharacterLemmas
pub mod CaseLemmas
pub mod MemberLemmas
pub mod ExclusionLemmas
mod ClassBits
