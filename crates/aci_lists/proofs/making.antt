pub mod MakingLemmas
