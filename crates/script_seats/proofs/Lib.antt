pub mod AskedCalls
pub mod EachPlace
pub mod HoldLists
pub mod OwnCalls
pub mod SeatLemmas
