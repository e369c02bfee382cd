pub mod TextLemmas
pub mod AcceptedLemmas
