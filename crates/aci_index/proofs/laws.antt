pub mod ListLemmas
pub mod PlaceLemmas
pub mod AreaLemmas
pub mod ForceLemmas
pub mod RowLemmas
pub mod NumberLemmas
pub mod AsideLemmas
