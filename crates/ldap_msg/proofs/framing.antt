pub mod StreamLemmas
pub mod OuterLemmas
pub mod HeadLemmas
