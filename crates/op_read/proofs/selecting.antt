pub mod ListLemmas
pub mod NameLemmas
pub mod SeenLemmas
pub mod SelectingLemmas
