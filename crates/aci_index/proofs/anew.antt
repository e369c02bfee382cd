pub mod NumberLemmas
pub mod ReachedLemmas
pub mod AnewLemmas
