pub mod ClassLemmas
pub mod ContentLemmas
pub mod EntryLemmas
