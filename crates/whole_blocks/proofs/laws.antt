pub mod FrontLemmas
pub mod TornLemmas
