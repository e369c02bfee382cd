pub mod WholeLemmas
pub mod LongestLemmas
pub mod WrittenLemmas
