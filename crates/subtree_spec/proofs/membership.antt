pub mod FrontLemmas
pub mod PairOrderLemmas
