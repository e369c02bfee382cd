pub mod PlayableLemmas
pub mod TurnLemmas
