pub mod EscapedLemmas
pub mod OneLineLemmas
pub mod NameLemmas
