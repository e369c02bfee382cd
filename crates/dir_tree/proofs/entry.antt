pub mod RowLemmas
pub mod GoodLemmas
