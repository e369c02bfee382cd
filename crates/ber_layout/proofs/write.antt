pub mod EncloseLemmas
pub mod WritingLemmas
