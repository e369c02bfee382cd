pub mod WordLemmas
pub mod TextLemmas
pub mod WrittenLemmas
pub mod ReadLemmas
pub mod PlaceLemmas
pub mod LoadLemmas
