pub mod DueLemmas
pub mod StepLemmas
pub mod StayLemmas
