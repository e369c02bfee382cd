pub mod PartLemmas
pub mod ContentLemmas
pub mod MessageLemmas
