pub mod GrownLemmas
pub mod WholeLemmas
pub mod ClassLemmas
pub mod ItemLemmas
pub mod LexemesLemmas
pub mod LexesLemmas
pub mod TextLemmas
pub mod LookingLemmas
