pub mod TestLemmas
pub mod EachLemmas
pub mod FilterLemmas
pub mod MapLemmas
