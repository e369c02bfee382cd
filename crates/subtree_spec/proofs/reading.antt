pub mod ReadLemmas
pub mod SubtreeNested
