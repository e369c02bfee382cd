pub mod WalkLemmas
pub mod AfterLemmas
