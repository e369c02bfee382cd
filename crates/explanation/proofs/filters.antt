pub mod MappedLemmas
pub mod LowestLemmas
