pub mod TableFacts
pub mod NormalLemmas
pub mod DottedLemmas
pub mod FoundLemmas
