pub mod PartLemmas
pub mod FairLemmas
pub mod AdvanceLemmas
pub mod SearchLemmas
