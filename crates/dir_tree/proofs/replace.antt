pub mod PlaceLemmas
pub mod OrderedLemmas
pub mod ReplaceLemmas
pub mod ReviseLemmas
