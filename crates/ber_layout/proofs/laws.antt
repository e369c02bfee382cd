pub mod LayoutLemmas
pub mod SpellingLemmas
pub mod RangeLemmas
