pub mod PutsLemmas
pub mod SendingLemmas
