pub mod PerformLemmas
pub mod PrintLemmas
pub mod DueLemmas
