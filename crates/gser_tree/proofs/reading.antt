pub mod NumberLemmas
pub mod ReadsLemmas
pub mod OnlyLemmas
pub mod NestedLemmas
