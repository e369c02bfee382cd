pub mod PutsLemmas
pub mod PrintsLemmas
pub mod DecimalLemmas
