pub mod ListLemmas
pub mod KeyLemmas
pub mod ChoiceLemmas
pub mod StandingLaw
pub mod DecisionLaw
pub mod UnseenLaw
