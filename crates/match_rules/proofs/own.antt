pub mod LowerLemmas
pub mod OwnLemmas
