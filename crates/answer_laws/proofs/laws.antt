pub mod AnswerLemmas
pub mod FoundLemmas
pub mod SearchLemmas
pub mod CompareLemmas
pub mod ChangeLemmas
