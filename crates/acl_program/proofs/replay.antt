pub mod JournalLemmas
pub mod PlayLemmas
