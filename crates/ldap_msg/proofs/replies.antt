pub mod ReplyLemmas
pub mod AnswerLemmas
