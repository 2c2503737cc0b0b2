pub mod HoldLaws
pub mod SpaceLemmas
pub mod TurnLists
pub mod VariableLemmas
pub mod WishLemmas
