pub mod HeadingLemmas
pub mod ElementLemmas
pub mod SpellingLemmas
pub mod WrittenIntegers
pub mod OneForm
pub mod OneInteger
