pub mod SetLemmas
pub mod ValuesLaws
pub mod GoodLaws
pub mod FreeLemmas
pub mod BesideLemmas
