pub mod GrammarLemmas
pub mod WithinLemmas
pub mod DerivativeLemmas
pub mod MachineLemmas
