pub mod AddingLemmas
pub mod KeepingLemmas
pub mod ServingLemmas
