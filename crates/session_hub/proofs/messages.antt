pub mod AnswerLemmas
pub mod RefusalLemmas
pub mod KeepLemmas
