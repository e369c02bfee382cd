pub mod PrefixLemmas
pub mod WithoutLemmas
pub mod TakenLemmas
