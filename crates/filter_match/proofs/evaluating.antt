pub mod JoinLemmas
pub mod JudgingLemmas
