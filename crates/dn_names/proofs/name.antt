pub mod ClassLemmas
pub mod PairLemmas
pub mod LastLemmas
pub mod PrintedLemmas
pub mod PrintedNameLemmas
pub mod NameLaws
