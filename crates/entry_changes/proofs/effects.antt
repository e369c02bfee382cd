pub mod EffectLemmas
pub mod TakenLemmas
