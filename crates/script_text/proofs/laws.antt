pub mod TextLemmas
pub mod OutcomeLemmas
pub mod LawLemmas
