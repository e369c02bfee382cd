pub mod ReadLemmas
pub mod NestedLemmas
pub mod LimitNested
pub mod ItemNested
