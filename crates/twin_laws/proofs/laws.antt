pub mod ListLemmas
pub mod NameLemmas
pub mod GroupLemmas
pub mod ViewLemmas
pub mod SeenLemmas
pub mod SearchLemmas
pub mod CompareLemmas
pub mod TwinLaws
