pub mod EachLemmas
pub mod StreamLemmas
pub mod FirstLemmas
pub mod FrameLemmas
pub mod JoinLemmas
mod FirstExamples
