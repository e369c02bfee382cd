pub mod LoopLemmas
pub mod PlayLemmas
pub mod GivenLemmas
pub mod CauseLemmas
pub mod StarveLemmas
pub mod TurnLemmas
pub mod TwinServingLemmas
