pub mod AcceptLemmas
pub mod ReadyLemmas
pub mod AnswerLemmas
pub mod ExplainLemmas
pub mod DueLemmas
pub mod PerformLemmas
pub mod RunLemmas
pub mod TwinReplays
