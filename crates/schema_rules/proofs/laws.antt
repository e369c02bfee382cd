pub mod ListPlaceLemmas
pub mod StayLemmas
pub mod ListTakenLemmas
pub mod TakenLemmas
pub mod InPlaceLemmas
pub mod MovedLemmas
