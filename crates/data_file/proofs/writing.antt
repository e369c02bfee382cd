pub mod WalkLemmas
pub mod PutLemmas
