pub mod SearchLemmas
pub mod ResponseLemmas
pub mod ReadLemmas
pub mod AgainLemmas
