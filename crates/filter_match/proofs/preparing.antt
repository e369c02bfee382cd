pub mod PreparingLemmas
